-- Writing a line part by part, of which the last octets are held.
use Rattle.std.proofs.Common.{◌≡◌, ℕ, ◌+◌, ◌-◌, ◌<◌, List, [], ◌∷◌, ◌++◌, length, take, drop}
use Rattle.std.proofs.Common.{get_or}
use Rattle.std.specs.Prelude.{Result, Ok, Err, IsErr, OnOk, codes, decimal}
use Rattle.std.proofs.Common.{refl, sym, ◌∙◌, ap, subst, arith, append_assoc, append-nil}
use Rattle.std.proofs.Common.{take-append-drop, add-one, drop-cons, suc}
use Rattle.std.proofs.lemmas.Grind.{common_steps}
use Rattle.hex.specs.Hex.{encode_with, encode_lower}
use Rattle.octet_io.specs.Known.{append_known}
use Rattle.octet_io.specs.declared.source.Failed.{Failed}
use Rattle.octet_io.specs.Shown.{Shown}
use Rattle.answer_text.specs.Pieces.{hex_text, text_of, text_before, text_of_pieces}
use Rattle.answer_text.specs.Writes.{Appends, Puts}
use Rattle.answer_text.specs.declared.pieces.Piece.{Piece}
use Rattle.answer_text.specs.declared.pieces.Piece.TheVariants.{Text, Hex, Number, Leading, Line}
use Rattle.answer_text.proofs.Fronts.{append_known_append, append_known_nil}

text_before_append : (piece : Piece) (rest : List ℕ)
    → text_before piece rest ≡ text_of piece ++ rest
text_before_append (Text octets) rest = refl
text_before_append (Hex front octets) rest = sym (append_assoc front.now (hex_text octets.now) rest)
text_before_append (Number front number) rest = sym (append_assoc front.now (decimal number) rest)
text_before_append (Leading number octets) rest =
    sym (append_assoc (decimal number) octets.now rest)
text_before_append (Line front number) rest =
    sym (append_assoc front.now (decimal number) (codes "\n" ++ rest))
    ∙ sym (append_assoc (front.now ++ decimal number) (codes "\n") rest)

pub joined_drop : (pieces : List Piece) (i : ℕ) (d : Piece) → i < length pieces
    → text_of_pieces (drop i pieces)
    ≡ text_of (get_or pieces i d) ++ text_of_pieces (drop (i + 1) pieces)
joined_drop pieces i d h = rw (add-one, drop-cons pieces i d h)
    (text_before_append (get_or pieces i d) (text_of_pieces (drop (suc i) pieces)))

-- octets in hex, in two parts
encoded_append : (xs ys : List ℕ) → encode_lower (xs ++ ys) ≡ encode_lower xs ++ encode_lower ys
unfolding encode_with
encoded_append [] ys = refl
encoded_append (x ∷ xs) ys = rw (encoded_append xs ys) refl

pub encoded_none : (octets : List ℕ) → length octets ≡ 0 → encode_lower octets ≡ []
unfolding encode_with
encoded_none [] e = refl
encoded_none (x ∷ xs) e = absurd (omega arith)

pub encoded_range : (rest : List ℕ) (n : ℕ) → encode_lower rest
    ≡ encode_lower (take n rest) ++ encode_lower (take (length rest - n) (drop n rest))
encoded_range rest n =
    let all : take (length rest - n) (drop n rest) ≡ drop n rest = grind (arith, common_steps) in
    rw all (ap encode_lower (sym (take-append-drop n rest))
    ∙ encoded_append (take n rest) (drop n rest))

pub range : (rest : List ℕ) (n : ℕ) → rest ≡ take n rest ++ take (length rest - n) (drop n rest)
range rest n =
    let all : take (length rest - n) (drop n rest) ≡ drop n rest = grind (arith, common_steps) in
    rw all (sym (take-append-drop n rest))

module _ {S : Type 0} (shown : Shown S) where
  split_both : (held first second front rest between : List ℕ) → held ++ first ≡ front ++ rest
      → between ≡ rest
      → (front_2 rest_2 : List ℕ) → between ++ second ≡ front_2 ++ rest_2
      → held ++ (first ++ second) ≡ (front ++ front_2) ++ rest_2
  split_both held first second front rest between a is front_2 rest_2 b =
      sym (append_assoc held first second) ∙ ap (λ t. t ++ second) a
      ∙ append_assoc front rest second
      ∙ ap (λ t. front ++ t) (ap (λ t. t ++ second) (sym is) ∙ b)
      ∙ sym (append_assoc front front_2 rest_2)

  -- a text in two parts: the first was put, and then the second
  pub puts_both : (result : Result (Unit {0}) Failed) (done : Unit {0}) (before mid after : S)
      (held between now first second : List ℕ)
      → Puts shown (Ok done) before mid held between first
      → Puts shown result mid after between now second
      → Puts shown result before after held now (first ++ second)
  unfolding Puts
  puts_both (Ok all) done before mid after held between now first second a b = record {
    front = a.front ++ b.front;
    rest = b.rest;
    split = split_both held first second a.front a.rest between a.split a.holds b.front
        b.rest b.split;
    appended = append_known_append (shown.octets before) a.front b.front
        ∙ ap (λ k. append_known k b.front) a.appended ∙ b.appended;
    holds = b.holds;
    counted = tt;
    uncounted = b.uncounted ∙ a.uncounted;
    never_falls = omega arith;
  }
  puts_both (Err fault) done before mid after held between now first second a b = record {
    front = a.front ++ b.front;
    rest = b.rest;
    split = split_both held first second a.front a.rest between a.split a.holds b.front
        b.rest b.split;
    appended = append_known_append (shown.octets before) a.front b.front
        ∙ ap (λ k. append_known k b.front) a.appended ∙ b.appended;
    holds = tt;
    counted = λ h. b.counted (omega arith);
    uncounted = tt;
    never_falls = omega arith;
  }

  -- the first part was not put whole
  pub puts_front : (result first_result : Result (Unit {0}) Failed) (before after : S)
      (held now other first second : List ℕ) → IsErr result → IsErr first_result
      → Puts shown first_result before after held other first
      → Puts shown result before after held now (first ++ second)
  unfolding Puts
  puts_front (Ok done) first_result before after held now other first second e f a = absurd cc
  puts_front (Err fault) (Ok done) before after held now other first second e f a = absurd cc
  puts_front (Err fault) (Err first_fault) before after held now other first second e f a = record {
    front = a.front;
    rest = a.rest ++ second;
    split = sym (append_assoc held first second) ∙ ap (λ t. t ++ second) a.split
        ∙ append_assoc a.front a.rest second;
    appended = a.appended;
    holds = tt;
    counted = a.counted;
    uncounted = tt;
    never_falls = a.never_falls;
  }

  puts_text : (result : Result (Unit {0}) Failed) (before after : S) (held now text other : List ℕ)
      → text ≡ other
      → Puts shown result before after held now other → Puts shown result before after held now text
  puts_text result before after held now text other e p =
      subst (λ t. Puts shown result before after held now t) (sym e) p

  -- a text was put, and what is held was written
  pub puts_sent : (result : Result (Unit {0}) Failed) (done : Unit {0}) (before mid after : S)
      (held between now text : List ℕ)
      → Puts shown (Ok done) before mid held between text
      → Puts shown result mid after between now []
      → Puts shown result before after held now text
  puts_sent result done before mid after held between now text a b =
      puts_text result before after held now text (text ++ []) (sym (append-nil text))
      (puts_both result done before mid after held between now text [] a b)

  -- a text is held
  pub puts_stored : (done : Unit {0}) (before : S) (held now text : List ℕ) → now ≡ held ++ text
      → Puts shown (Ok done) before before held now text
  unfolding Puts
  puts_stored done before held now text e = record {
    front = [];
    rest = held ++ text;
    split = refl;
    appended = append_known_nil (shown.octets before);
    holds = e;
    counted = tt;
    uncounted = refl;
    never_falls = omega arith;
  }

  -- a text is held, and all that is held was written
  pub puts_with : (result : Result (Unit {0}) Failed) (before after : S)
      (held between now text : List ℕ) → between ≡ held ++ text
      → Puts shown result before after between now [] → Puts shown result before after held now text
  puts_with result before after held between now text e p =
      puts_sent result tt before before after held between now text
      (puts_stored tt before held between text e) p

  -- what is held was written
  pub puts_written : (done all : Unit {0}) (before after : S) (held now : List ℕ) → now ≡ []
      → Appends shown (Ok all) before after held
      → Puts shown (Ok done) before after held now []
  unfolding Appends Puts
  puts_written done all before after held now e a = record {
    front = held;
    rest = [];
    split = refl;
    appended = a.writes;
    holds = e;
    counted = tt;
    uncounted = a.uncounted;
    never_falls = a.never_falls;
  }

  pub puts_unwritten : (result first_result : Result (Unit {0}) Failed) (before after : S)
      (held now : List ℕ) → IsErr result → IsErr first_result
      → Appends shown first_result before after held → Puts shown result before after held now []
  unfolding Appends Puts
  puts_unwritten (Ok done) first_result before after held now e f a = absurd cc
  puts_unwritten (Err fault) (Ok done) before after held now e f a = absurd cc
  puts_unwritten (Err fault) (Err first_fault) before after held now e f a = record {
    front = a.writes.front;
    rest = a.writes.rest;
    split = append-nil held ∙ a.writes.split;
    appended = a.writes.appended;
    holds = tt;
    counted = a.counted;
    uncounted = tt;
    never_falls = a.never_falls;
  }

  -- a line that was begun with nothing held is written whole
  pub appends_sent : (result : Result (Unit {0}) Failed) (done : Unit {0}) (before mid after : S)
      (held between now text : List ℕ) → held ≡ []
      → Puts shown (Ok done) before mid held between text
      → Puts shown result mid after between now []
      → OnOk result (now ≡ []) → Appends shown result before after text
  unfolding Appends Puts
  appends_sent (Ok all) done before mid after held between now text none a b sent =
      let p = puts_sent (Ok all) done before mid after held between now text a b in
      let is : text ≡ p.front = ap (λ t. t ++ text) (sym none) ∙ p.split
      ∙ ap (λ t. p.front ++ t) (sym p.holds ∙ sent) ∙ append-nil p.front in
      record {
        writes = ap (λ t. append_known (shown.octets before) t) is ∙ p.appended;
        counted = tt;
        uncounted = p.uncounted;
        never_falls = p.never_falls;
      }
  appends_sent (Err fault) done before mid after held between now text none a b sent =
      let p = puts_sent (Err fault) done before mid after held between now text a b in
      record {
        writes = record {
          front = p.front;
          rest = p.rest;
          split = ap (λ t. t ++ text) (sym none) ∙ p.split;
          appended = p.appended;
        };
        counted = p.counted;
        uncounted = tt;
        never_falls = p.never_falls;
      }

  -- it was not put whole
  pub appends_cut : (result first_result : Result (Unit {0}) Failed) (before after : S)
      (held now text : List ℕ) → IsErr result → IsErr first_result → held ≡ []
      → Puts shown first_result before after held now text → Appends shown result before after text
  unfolding Appends Puts
  appends_cut (Ok done) first_result before after held now text e f none p = absurd cc
  appends_cut (Err fault) (Ok done) before after held now text e f none p = absurd cc
  appends_cut (Err fault) (Err first_fault) before after held now text e f none p = record {
    writes = record {
      front = p.front;
      rest = p.rest;
      split = ap (λ t. t ++ text) (sym none) ∙ p.split;
      appended = p.appended;
    };
    counted = p.counted;
    uncounted = tt;
    never_falls = p.never_falls;
  }

  -- the text has been put up to the rest
  pub record Putting (before now : S) (held holds text rest : List ℕ) : Type 0 where
    pub front : List ℕ
    pub split : text ≡ front ++ rest
    pub puts : Puts shown (Ok tt) before now held holds front

  pub putting_starts : (now : S) (held text : List ℕ) → Putting now now held held text text
  putting_starts now held text = record {
    front = [];
    split = refl;
    puts = puts_stored tt now held held [] (sym (append-nil held));
  }

  -- one more piece was put
  pub putting_next : (before now after : S) (held holds next text rest piece more : List ℕ)
      → rest ≡ piece ++ more → Putting before now held holds text rest
      → Puts shown (Ok tt) now after holds next piece → Putting before after held next text more
  putting_next before now after held holds next text rest piece more e a p = record {
    front = a.front ++ piece;
    split = a.split ∙ ap (λ t. a.front ++ t) e ∙ sym (append_assoc a.front piece more);
    puts = puts_both (Ok tt) tt before now after held holds next a.front piece a.puts p;
  }

  -- the rest was put, or a front of it
  pub putting_ends : (result : Result (Unit {0}) Failed) (before now after : S)
      (held holds next text rest : List ℕ) → Putting before now held holds text rest
      → Puts shown result now after holds next rest → Puts shown result before after held next text
  putting_ends result before now after held holds next text rest a r =
      puts_text result before after held next text (a.front ++ rest) a.split
      (puts_both result tt before now after held holds next a.front rest a.puts r)

  -- one more piece was not put whole
  pub putting_cut : (result first_result : Result (Unit {0}) Failed) (before now after : S)
      (held holds next other text rest piece more : List ℕ)
      → IsErr result → IsErr first_result → rest ≡ piece ++ more
      → Putting before now held holds text rest
      → Puts shown first_result now after holds other piece
      → Puts shown result before after held next text
  putting_cut result first_result before now after held holds next other text rest piece more is
      fails e a p =
      putting_ends result before now after held holds next text rest a
      (puts_text result now after holds next rest (piece ++ more) e
      (puts_front result first_result now after holds next other piece more is fails p))

  -- nothing is left
  pub putting_over : (before now : S) (held holds text rest : List ℕ)
      → Putting before now held holds text rest → rest ≡ []
      → Puts shown (Ok tt) before now held holds text
  putting_over before now held holds text rest a e =
      putting_ends (Ok tt) before now now held holds holds text rest a (puts_text (Ok tt)
      now now holds holds rest [] e (puts_stored tt now holds holds [] (sym (append-nil holds))))
