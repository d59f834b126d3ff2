use Rattle.std.proofs.Common.{◌≡◌, ℕ, List, [], ◌++◌, length, take, ap, sym, ◌∙◌, arith, append-nil}
use Rattle.std.proofs.Common.{append_assoc}
use Rattle.std.proofs.lemmas.List.{take_all}
use Rattle.octet_lists.specs.Suite.{ks_of, suite_octets}
use Rattle.octet_lists.specs.declared.suite.Suite.{Suite}
use Rattle.octet_lists.specs.declared.suite.Suite.TheVariants.{Cmac, Hmac}
use Rattle.login_keys.specs.Gpsk.{gkdf, gkdf_block, gkdf_blocks, gpsk_tag_of, two_octets}
use Rattle.login_keys.specs.Gpsk.{master_key}
use Rattle.login_keys.proofs.GpskLaws.{length_gpsk_tag_of}
use Rattle.login_keys.proofs.gpsk.master_key.Goals as goal

whole_block : (tag : List ℕ) (n : ℕ) → length tag ≡ n → take n (tag ++ []) ≡ tag
whole_block tag n e = rw append-nil (take_all n tag (omega arith))

-- KS octets are the first block
one_block : (suite : Suite) (y z : List ℕ)
    → gkdf suite (ks_of suite) y z ≡ gpsk_tag_of suite y (two_octets 1 ++ z)
unfolding gkdf gkdf_blocks gkdf_block
one_block Cmac y z = whole_block _ 16 (length_gpsk_tag_of Cmac y (two_octets 1 ++ z))
one_block Hmac y z = whole_block _ 32 (length_gpsk_tag_of Hmac y (two_octets 1 ++ z))

-- the front and inputString, the number of the block apart
joined_behind : (one size psk sel input : List ℕ) → (one ++ (size ++ (psk ++ sel))) ++ input
    ≡ one ++ (size ++ (psk ++ (sel ++ input)))
joined_behind one size psk sel input = simp append_assoc

pub returns-clause-key : goal.returns-clause-key
unfolding master_key
returns-clause-key c = λ input is_text.
    let suite : Suite = c.args.suite in
    let size : List ℕ = two_octets (length c.args.psk.now) in
    let z : List ℕ = size ++ (c.args.psk.now ++ (suite_octets suite ++ input)) in
    let same : c.args.text.now ≡ two_octets 1 ++ z =
    is_text ∙ joined_behind (two_octets 1) size c.args.psk.now (suite_octets suite) input in
    c.gpsk_tag.ensures.tag
    ∙ ap (gpsk_tag_of suite (take c.ks.result c.args.psk.now)) same
    ∙ ap (λ (k : ℕ). gpsk_tag_of suite (take k c.args.psk.now) (two_octets 1 ++ z)) c.ks.ensures
    ∙ sym (one_block suite (take (ks_of suite) c.args.psk.now) z)
