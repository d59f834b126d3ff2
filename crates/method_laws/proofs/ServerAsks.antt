-- A server that holds a nonce of the peer asks so of it, by either method.
use Rattle.std.proofs.Common.{◌≡◌, ℕ, List, length, Option, Some, sym, ap, ◌∙◌}
use Rattle.login_setup.specs.Setup.{ServerSetup}
use Rattle.eap_method.specs.declared.tags.TagRecord.{TagRecord}
use Rattle.eap_method.specs.Server.{ServerViews}
use Rattle.method_laws.specs.ByMethod.{ServerTags, gpsk_current, identity_current, none_current}
use Rattle.method_laws.specs.ByMethod.{psk_current, server_foreign}
use Rattle.method_laws.specs.GpskServerInvariant.{gpsk_rand_p_in}
use Rattle.method_laws.specs.PskServerInvariant.{psk_rand_p_in}
use Rattle.method_laws.specs.TagOwners.{ServerTagOwner}
use Rattle.method_laws.proofs.Asks.{AsksPeer}
use Rattle.method_laws.proofs.GpskServerOwners.{gpsk_view_asks}
use Rattle.method_laws.proofs.PskServerOwners.{psk_view_asks}

module _ (setup : ServerSetup) (nonce foreign : List ℕ) (size : length nonce ≡ 32) where
  abbrev own : ServerSetup
  own = record setup { nonce = nonce }

  tags_ask : (current : Option ℕ) (views : ServerViews) (accepted made : List TagRecord)
      → ServerTags own current views accepted made
      → server_foreign current views ≡ Some foreign → AsksPeer setup nonce foreign accepted
  tags_ask current views _ _ (none_current none) holds =
      absurd (let e = sym (ap (λ (o : Option ℕ). server_foreign o views) none) ∙ holds in cc e)
  tags_ask current views _ _ (identity_current is_current) holds =
      absurd (let e = sym (ap (λ (o : Option ℕ). server_foreign o views) is_current)
      ∙ holds in cc e)
  tags_ask current views _ _ (psk_current view accepted made is_current in_view told) holds =
      psk_view_asks setup nonce foreign size view accepted made told (sym (ap (λ (o : Option ℕ).
      server_foreign o views) is_current ∙ ap psk_rand_p_in in_view) ∙ holds)
  tags_ask current views _ _ (gpsk_current view accepted made is_current in_view told) holds =
      gpsk_view_asks setup nonce foreign size view accepted made told (sym (ap (λ (o : Option ℕ).
      server_foreign o views) is_current ∙ ap gpsk_rand_p_in in_view) ∙ holds)

  pub server_asks : (held : Option (List ℕ)) (accepted made : List TagRecord)
      → ServerTagOwner setup nonce held accepted made → held ≡ Some foreign
      → AsksPeer setup nonce foreign accepted
  server_asks held accepted made told holds =
      tags_ask told.current told.views accepted made told.tags (told.held_is ∙ holds)
