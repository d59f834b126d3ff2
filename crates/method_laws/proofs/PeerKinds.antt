-- Each Response of a peer's method is of the method's Type, which is neither Nak nor Expanded (RFC
-- 3748 sections 5.3 and 5.7).
use Rattle.std.proofs.Common.{◌≡◌, ℕ, List, false, refl}
use Rattle.std.specs.Prelude.{◌==◌}
use Rattle.octet_lists.specs.Among.{expanded_kind, nak_kind}
use Rattle.eap_packet.specs.Packet.{response, spelled}
use Rattle.eap_method.specs.BothPeers.{gpsk_in, psk_in}
use Rattle.eap_method.specs.GpskPeer as gpsk
use Rattle.eap_method.specs.Peer.{PeerViews}
use Rattle.eap_method.specs.PeerTurn.{PeerTurn, Reply}
use Rattle.eap_method.specs.PskPeer as psk
use Rattle.eap_method.specs.Tags.{Tags}
use Rattle.eap_method.specs.Turns.{PeerOutcome}
use Rattle.eap_method.specs.declared.values.Decision.{Decision}
use Rattle.eap_method.specs.declared.values.MethodState.{MethodState}
use Rattle.method_laws.specs.GpskPeerRows as gpsk_row
use Rattle.method_laws.specs.PskPeerRows as psk_row
use Rattle.method_laws.proofs.PeerByMethod.{TurnOf, of_gpsk, of_none, of_psk}

pub record IsOfMethod (packet : List ℕ) : Type 0 where
  pub id : ℕ
  pub kind : ℕ
  pub body : List ℕ
  pub no_nak : (kind == nak_kind) ≡ false
  pub plain : (kind == expanded_kind) ≡ false
  pub same : packet ≡ spelled (response id kind body)

pub record AreOfMethod (turn : PeerTurn) : Type 0 where
  pub each : (packet : List ℕ) (m : MethodState) (d : Decision) (tags : Tags)
      → turn ≡ Reply packet m d tags → IsOfMethod packet

replied_so : (id kind : ℕ) (body : List ℕ) (m : MethodState) (d : Decision) (tags : Tags)
    → (kind == nak_kind) ≡ false → (kind == expanded_kind) ≡ false
    → AreOfMethod (Reply (spelled (response id kind body)) m d tags)
replied_so id kind body m d tags no_nak plain = record {
  each = λ packet m' d' tags' e.
      record {
        id = id;
        kind = kind;
        body = body;
        no_nak = no_nak;
        plain = plain;
        same = (let same : packet ≡ spelled (response id kind body) = cc in same);
      };
}

of_psk_row : (view : psk.View) (octets : List ℕ) (out : PeerOutcome psk.View)
    → psk_row.PskPeerRow view octets out → AreOfMethod out.turn
of_psk_row view octets _ (psk_row.drops c) = record { each = λ packet m d tags e. cc e }
of_psk_row view octets _ (psk_row.answers _ _ _ _ _ _ _) = replied_so _ 47 _ _ _ _ refl refl
of_psk_row view octets _ (psk_row.confirms_success _ _ _ _ _ _ _ _ _ _ _ _ _ _ _ _) =
    replied_so _ 47 _ _ _ _ refl refl
of_psk_row view octets _ (psk_row.confirms_failure _ _ _ _ _ _ _ _ _ _ _ _ _ _ _ _ _ _) =
    replied_so _ 47 _ _ _ _ refl refl

of_gpsk_row : (view : gpsk.View) (octets : List ℕ) (out : PeerOutcome gpsk.View)
    → gpsk_row.GpskPeerRow view octets out → AreOfMethod out.turn
of_gpsk_row view octets _ (gpsk_row.drops c) = record { each = λ packet m d tags e. cc e }
of_gpsk_row view octets _ (gpsk_row.answers _ _ _ _ _ _ _ _ _ _) =
    replied_so _ 51 _ _ _ _ refl refl
of_gpsk_row view octets _ (gpsk_row.confirms _ _ _ _ _ _ _ _ _ _ _ _ _ _ _ _) =
    replied_so _ 51 _ _ _ _ refl refl
of_gpsk_row view octets _ (gpsk_row.repeats_fail _ _ _ _) = replied_so _ 51 _ _ _ _ refl refl
of_gpsk_row view octets _ (gpsk_row.repeats_protected _ _ _ _ _ _ _) =
    replied_so _ 51 _ _ _ _ refl refl

pub turn_is_of_method : (kind : ℕ) (views : PeerViews) (octets : List ℕ)
    (out : PeerOutcome PeerViews) → TurnOf kind views octets out → AreOfMethod out.turn
turn_is_of_method kind views octets _ (of_psk same out row) =
    of_psk_row (psk_in views) octets out row
turn_is_of_method kind views octets _ (of_gpsk same out row) =
    of_gpsk_row (gpsk_in views) octets out row
turn_is_of_method kind views octets _ (of_none c) = record { each = λ packet m d tags e. cc e }
