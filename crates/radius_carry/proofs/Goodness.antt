-- The tests of a packet's authenticators say what they are for.
use Rattle.std.proofs.Common.{◌≡◌, ◌↔◌, ℕ, List, Bool, true, false, not, ◌&&◌, ◌==◌, IsTrue, refl}
use Rattle.std.proofs.Common.{◌∙◌, sym}
use Rattle.std.specs.Str.{bytes_eq}
use Rattle.std.proofs.lemmas.Bool.Decides.{Decides-eqb}
use Rattle.std.proofs.lemmas.Slice.Eq.{bytes_eq-Decides}
use Rattle.radius_carry.specs.Packet.{RadiusPacket, tag_of}
use Rattle.radius_carry.specs.Tags.{request_tag, reply_tag, response_authenticator, IsGoodRequest}
use Rattle.radius_carry.specs.Tags.{IsGoodReply}

both_true : (a b : Bool) → IsTrue (a && b) → (a ≡ true) × (b ≡ true)
both_true true true e = (refl, refl)
both_true true false e = cc
both_true false b e = cc

and_true : (a b : Bool) → a ≡ true → b ≡ true → IsTrue (a && b)
and_true true true e f = refl
and_true true false e f = cc
and_true false b e f = cc

is_false : (a : Bool) → not a ≡ true → a ≡ false
is_false true e = cc
is_false false e = refl

not_true : (a : Bool) → (a ≡ true → ⊥) → not a ≡ true
not_true true e = absurd (e refl)
not_true false e = refl

pub request_decides : (secret tag : List ℕ) (packet : RadiusPacket) (is_request is_tagged : Bool) →
    is_request ≡ (packet.code == 1) → tag ≡ request_tag secret packet
    → is_tagged ≡ bytes_eq (tag_of packet.attributes) tag →
    IsTrue (is_request && is_tagged) ↔ IsGoodRequest secret packet
request_decides secret tag packet is_request is_tagged e f g = (
  λ good.
      let both = both_true is_request is_tagged good in
      record {
        is_request = (Decides-eqb packet.code 1).0 (sym e ∙ both.0);
        tag = (bytes_eq-Decides (tag_of packet.attributes) tag).0 (sym g ∙ both.1) ∙ f;
      },
  λ good.
      and_true is_request is_tagged
      (e ∙ (Decides-eqb packet.code 1).1 good.is_request)
      (g ∙ (bytes_eq-Decides (tag_of packet.attributes) tag).1 (good.tag ∙ sym f)),
)

pub reply_decides : (secret asked tag response : List ℕ) (packet : RadiusPacket)
    (is_request is_tagged is_answer : Bool) →
    is_request ≡ (packet.code == 1) → tag ≡ reply_tag secret asked packet
    → response ≡ response_authenticator secret asked packet →
    is_tagged ≡ bytes_eq (tag_of packet.attributes) tag
    → is_answer ≡ bytes_eq packet.authenticator response →
    IsTrue ((not is_request && is_tagged) && is_answer) ↔ IsGoodReply secret asked packet
reply_decides secret asked tag response packet is_request is_tagged is_answer e f r g a = (
  λ good.
      let all = both_true (not is_request && is_tagged) is_answer good in
      let both = both_true (not is_request) is_tagged all.0 in
      let other = is_false is_request both.0 in
      record {
        is_reply =
            λ one. let same : is_request ≡ true = e ∙ (Decides-eqb packet.code 1).1 one in cc;
        tag = (bytes_eq-Decides (tag_of packet.attributes) tag).0 (sym g ∙ both.1) ∙ f;
        authenticator = (bytes_eq-Decides packet.authenticator response).0 (sym a ∙ all.1) ∙ r;
      },
  λ good.
      and_true (not is_request && is_tagged) is_answer
      (and_true (not is_request) is_tagged
      (not_true is_request (λ same. good.is_reply ((Decides-eqb packet.code 1).0 (sym e ∙ same))))
      (g ∙ (bytes_eq-Decides (tag_of packet.attributes) tag).1 (good.tag ∙ sym f)))
      (a ∙ (bytes_eq-Decides packet.authenticator response).1 (good.authenticator ∙ sym r)),
)
