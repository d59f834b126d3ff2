-- The sizes of an EAP-GPSK ciphersuite: of a tag, for those who cut it or send it, and how many of
-- them a key takes.
use Rattle.std.proofs.Common.{◌≡◌, ℕ, ◌*◌, ◌<◌, ◌≤◌, List, length, ap, subst, ◌∙◌, arith, lit≤}
use Rattle.std.specs.Int.{div_ceil}
use Rattle.octet_lists.specs.Suite.{ks_of}
use Rattle.octet_lists.specs.declared.suite.Suite.{Suite}
use Rattle.octet_lists.specs.declared.suite.Suite.TheVariants.{Cmac, Hmac}
use Rattle.cmac_mac.proofs.Laws.{length_aes_cmac}
use Rattle.hmac_mac.proofs.Laws.{length_hmac_sha256}
use Rattle.login_keys.specs.Gpsk.{gpsk_tag_of}

-- a tag has KS octets
pub length_gpsk_tag_of : (suite : Suite) (key octets : List ℕ)
    → length (gpsk_tag_of suite key octets) ≡ ks_of suite
unfolding gpsk_tag_of
length_gpsk_tag_of Cmac key octets = length_aes_cmac key octets
length_gpsk_tag_of Hmac key octets = length_hmac_sha256 key octets

-- KS is at most 32
pub ks_le : (suite : Suite) → ks_of suite ≤ 32
ks_le Cmac = lit≤ tt
ks_le Hmac = lit≤ tt

-- while a block is wanted, fewer octets are there than are wanted
wanted : (suite : Suite) (x n : ℕ) → n < div_ceil x (ks_of suite) → n * ks_of suite < x
wanted Cmac x n h = omega arith
wanted Hmac x n h = omega arith

pub before_last : (suite : Suite) (x n ks end : ℕ) → ks ≡ ks_of suite → end ≡ div_ceil x ks
    → n < end → n * ks_of suite < x
before_last suite x n ks end same_ks is_end h =
    wanted suite x n (subst (λ k. n < div_ceil x k) same_ks (subst (λ e. n < e) is_end h))

-- all blocks are enough
enough : (suite : Suite) (x n : ℕ) → n ≡ div_ceil x (ks_of suite) → x ≤ n * ks_of suite
enough Cmac x n e = omega arith
enough Hmac x n e = omega arith

pub after_last : (suite : Suite) (x n ks end : ℕ) → ks ≡ ks_of suite → end ≡ div_ceil x ks → n ≡ end
    → x ≤ n * ks_of suite
after_last suite x n ks end same_ks is_end e =
    enough suite x n (e ∙ is_end ∙ ap (div_ceil x) same_ks)
