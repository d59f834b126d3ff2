-- A part of a list that is copied over the front of a buffer.
use Rattle.std.proofs.Common.{◌≡◌, ℕ, ◌≤◌, ◌+◌, ◌-◌, List, ◌++◌, length, take, drop, sym, ap, ◌∙◌}
use Rattle.std.proofs.Common.{arith}
use Rattle.std.proofs.lemmas.List.{take_at, take_rest, take-append-drop, length-take}
use Rattle.std.proofs.lemmas.List.{length-take-le, drop-drop, drop-take}

-- the front of the buffer, and what is left of the list
pub take_front : (n : ℕ) (list buf now : List ℕ) → n ≤ length list → now ≡ take n list ++ buf
    → list ≡ take n now ++ drop n list
take_front n list buf now fits is =
    let front : take n now ≡ take n list =
    ap (λ l. take n l) is ∙ take_at (take n list) buf n (length-take-le n list fits) in
    rw front (sym (take-append-drop n list))

-- the same in terms of all octets and the place up to which they were read
pub prefix_at : (n place : ℕ) (octets before buf now : List ℕ)
    → drop place octets ≡ before → n ≤ length (take (length octets - place) (drop place octets))
    → now ≡ take n (take (length octets - place) (drop place octets)) ++ buf
    → before ≡ take n now ++ drop (place + n) octets
prefix_at n place octets before buf now is fits put =
    let whole : take (length octets - place) (drop place octets) ≡ drop place octets =
    take_rest octets place in
    let fits_whole : n ≤ length (drop place octets) = rw whole at fits in
    let put_whole : now ≡ take n (drop place octets) ++ buf = rw whole at put in
    sym is ∙ rw (← drop-drop n place octets) (take_front n (drop place octets)
    buf now fits_whole put_whole)

-- a part of a buffer without its first octets
pub skipped : (n place filled : ℕ) (octets : List ℕ)
    → n ≤ length (take (filled - place) (drop place octets)) → length octets ≡ 4096 → take (filled
    - (place + n)) (drop (place + n) octets) ≡ drop n (take (filled - place) (drop place octets))
skipped n place filled octets fits whole =
    let most : n ≤ filled - place =
    omega (arith, length-take (filled - place) (drop place octets)) in
    let count : filled - place ≡ n + (filled - (place + n)) = omega arith in
    rw (count, ← drop-drop n place octets)
    (sym (drop-take n (filled - (place + n)) (drop place octets)))
