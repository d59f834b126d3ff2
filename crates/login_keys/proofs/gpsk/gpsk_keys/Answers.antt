use Rattle.std.proofs.Common.{◌≡◌, ℕ, ◌+◌, ◌-◌, ◌≤◌, List, ◌++◌, length, take, drop, ap, sym, ◌∙◌}
use Rattle.std.proofs.Common.{length-append, arith}
use Rattle.std.specs.Prelude.{slice_range}
use Rattle.std.proofs.Math.Seq.{drop-append_seam}
use Rattle.std.proofs.lemmas.List.{drop-drop, drop-take}
use Rattle.octet_lists.specs.Suite.{suite_octets}
use Rattle.octet_lists.specs.declared.suite.Suite.{Suite}
use Rattle.login_keys.specs.Gpsk.{gkdf, gpsk_keys_of, input_string, keys_from, master_key}
use Rattle.login_keys.specs.Gpsk.{two_octets}
use Rattle.login_keys.proofs.gpsk.gpsk_keys.Goals as goal

-- what is behind the first two octets of the part from two octets before the end of `front` on
behind : (room front input : List ℕ) (start end : ℕ) → take end room ≡ front ++ input
    → length front ≡ start + 2 → start ≤ end → drop 2 (slice_range room start end) ≡ input
behind room front input start end is_text size within =
    let whole : start + (end - start) ≡ end = omega arith in
    let part : drop start (take end room) ≡ slice_range room start end =
    ap (λ (n : ℕ). drop start (take n room)) (sym whole) ∙ drop-take start (end - start) room in
    ap (λ (l : List ℕ). drop 2 l) (sym part)
    ∙ drop-drop 2 start (take end room)
    ∙ ap (λ (n : ℕ). drop n (take end room)) (sym size)
    ∙ ap (λ (l : List ℕ). drop (length front) l) is_text
    ∙ drop-append_seam front input

front_size : (suite : Suite) (psk : List ℕ) (start : ℕ) → start ≡ 10 + length psk
    → length (two_octets 1 ++ (two_octets (length psk) ++ (psk ++ suite_octets suite)))
    ≡ (start - 2) + 2
front_size suite psk start starts =
    let whole : length (psk ++ suite_octets suite) ≡ length psk + 6 =
    length-append psk (suite_octets suite) in
    omega arith

pub returns-clause-keys : goal.returns-clause-keys
unfolding gpsk_keys_of
returns-clause-keys c =
    let mk : List ℕ = c.master_key-mk.result in
    let front : List ℕ = two_octets 1
    ++ (two_octets (length c.args.psk.now) ++ (c.args.psk.now ++ suite_octets c.args.suite)) in
    let input : List ℕ =
    input_string c.args.rand_p.now c.args.id_p.now c.args.rand_s.now c.args.id_s.now in
    let room : List ℕ = c.put_input-end.new.room in
    let start : ℕ = c.put_front-input.result in
    let end : ℕ = c.put_input-end.result in
    let is_text : take end room ≡ front ++ input = c.put_input-end.ensures.written
    ∙ ap (λ (l : List ℕ). l ++ input) c.put_front-input.ensures.written in
    let starts : start ≡ 10 + length c.args.psk.now = c.put_front-input.ensures.end in
    let ends : end ≡ start + (64 + length c.args.id_p.now + length c.args.id_s.now) =
    c.put_input-end.ensures.end in
    let size : length front ≡ (start - 2) + 2 =
    front_size c.args.suite c.args.psk.now start starts in
    let is_input : drop 2 (slice_range room (start - 2) end) ≡ input =
    behind room front input (start - 2) end is_text size (omega arith) in
    let is_mk : mk ≡ master_key c.args.suite c.args.psk.now input =
    c.master_key-mk.ensures.key input is_text in
    c.derive_keys.ensures.keys input is_input
    ∙ ap (λ (key : List ℕ). keys_from c.args.suite key (gkdf c.args.suite 160 key input)) is_mk
