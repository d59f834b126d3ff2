-- The users that the words `pcap NAME KIND HEX ..` name have keys of their methods' sizes, and
-- names within a line.
use Rattle.std.proofs.Common.{◌≡◌, ℕ, ◌≤◌, List, [], ◌∷◌, Bool, true, false, cond, ◌==◌, ◌&&◌}
use Rattle.std.proofs.Common.{codes, Some, None, All, IsTrue, refl, sym, arith, get_or}
use Rattle.std.proofs.lemmas.Bool.{and_parts, leb-true, ne_eqb}
use Rattle.std.specs.Prelude.{nat_le}
use Rattle.std.specs.Str.{bytes_eq}
use Rattle.login_setup.specs.Setup.{has_valid_key}
use Rattle.login_setup.specs.declared.users.User.{User}
use Rattle.text_tables.specs.UserWords.{is_visible, users_named, read_as}
use Rattle.text_tables.proofs.NamedUsers.{IsNamed, all_named}
use Rattle.answer_text.proofs.Plain.{is_within, skips}
use Rattle.capture_commands.specs.Pcap.{pcap_users}

-- each name is within a line
pub record HaveNames (users : List User) : Type 0 where
  pub within : All (λ user. is_within user.name ≡ true) users

visible_within : (word : List ℕ) → is_visible word ≡ true → is_within word ≡ true
visible_within [] h = refl
visible_within (o ∷ rest) h =
    let parts = and_parts (nat_le 33 o && nat_le o 126) (is_visible rest) h in
    let low : 33 ≤ o = leb-true 33 o (and_parts (nat_le 33 o) (nat_le o 126) parts.0).0 in
    skips (o == 10) (is_within rest) (ne_eqb o 10 (λ e. omega (arith, low, e)))
    (visible_within rest parts.1)

then_named : (t : Bool) (rest : List (List ℕ)) (users : List User)
    → cond t (users_named (Some []) rest) None ≡ Some users → All IsNamed users
then_named true rest users e = all_named rest users e
then_named false rest users e = absurd cc

pcap_named : (words : List (List ℕ)) (users : List User) → pcap_users words ≡ Some users
    → All IsNamed users
pcap_named [] users e = absurd cc
pcap_named (word ∷ rest) users e = then_named (bytes_eq word (codes "pcap")) rest users e

pub pcap_names : (words : List (List ℕ)) (users : List User) → pcap_users words ≡ Some users
    → HaveNames users
pcap_names words users e = record {
  within = λ k d below. visible_within (get_or users k d).name
      (pcap_named words users e k d below).visible;
}

pub pcap_keys : (words : List (List ℕ)) (users : List User) → read_as true users ≡ pcap_users words
    → All (λ user. IsTrue (has_valid_key user)) users
pcap_keys words users e = λ k d below. (pcap_named words users (sym e) k d below).key
