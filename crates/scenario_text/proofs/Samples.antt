-- Lines, and a whole scenario, read by the definitions alone.
use Rattle.std.proofs.Common.{◌≡◌, List, ℕ, true, false, [], ◌∷◌, ◌++◌, replicate, Some, find}
use Rattle.std.proofs.Common.{Result, Ok, Err, refl}
use Rattle.std.specs.Prelude.{codes}
use Rattle.login_setup.specs.Setup.{no_later}
use Rattle.login_setup.specs.declared.setup.Later.{Later}
use Rattle.login_setup.specs.declared.setup.Accepts.TheVariants.{Any}
use Rattle.login_setup.specs.declared.setup.Mode.TheVariants as mode
use Rattle.login_setup.specs.declared.setup.Party.TheVariants as party
use Rattle.login_setup.specs.declared.setup.Port.TheVariants as port
use Rattle.login_setup.specs.declared.setup.Setup.{Setup}
use Rattle.login_setup.specs.declared.event.Event.TheVariants as event
use Rattle.login_setup.specs.Plain.{plain_peer, plain_server, plain_setup}
use Rattle.text_tables.specs.Fields.{spells_number, spells_octets}
use Rattle.text_tables.specs.Texts as texts
use Rattle.text_tables.specs.Texts.{body_has, read_body}
use Rattle.text_tables.specs.Rows.{faults, unless, keyword_in, line_has}
use Rattle.scenario_text.specs.Entries.{item_of, has_fault, meaning_by}
use Rattle.scenario_text.specs.Contents.{Entry, Set, Happens}
use Rattle.text_tables.specs.Users.{with_user}
use Rattle.scenario_text.specs.Reading.{with_later, peer_setup_of, server_setup_of, setup_of}
use Rattle.scenario_text.specs.Reading.{read_line}
use Rattle.scenario_text.specs.Whole.{IsScript, read_lines, read_all}
use Rattle.text_tables.specs.declared.fault.LineFault.{LineFault}
use Rattle.text_tables.specs.declared.fault.LineFault.TheVariants as fault
use Rattle.scenario_text.specs.declared.entry.Setting.TheVariants as setting
use Rattle.scenario_text.specs.declared.version.Version.{Version}
use Rattle.scenario_text.specs.declared.version.Version.TheVariants.{First, Second}
use Rattle.scenario_text.proofs.Implying.{scenarios_are_read}

-- what a line of a version says, or the first fault of its words
abbrev means_in : Version → List ℕ → Result Entry LineFault
means_in version line = unless (find (has_fault version line) faults) (meaning_by version line)

abbrev says : List ℕ → Result Entry LineFault
says line = means_in First line

-- a number has no leading zero, and is in its range; one space parts words, and their number comes
-- before what they are
numbers : (says (codes "deliver 1000000") ≡ Ok (Happens (event.Deliver 1000000)))
    × (says (codes "deliver 1000001") ≡ Err fault.BadNumber)
    × (says (codes "deliver 01") ≡ Err fault.BadNumber)
    × (says (codes "alter 1000000 1499 255") ≡ Ok (Happens (event.Alter 1000000 1499 255)))
    × (says (codes "deliver x y") ≡ Err fault.BadCount)
    × (says (codes "deliver  1") ≡ Err fault.BadCount)
    × (says (codes " idle") ≡ Err fault.BadWord)
unfolding line_has keyword_in item_of spells_number
numbers = (refl, refl, refl, refl, refl, refl, refl)

choices : (says (codes "mode through") ≡ Ok (Set (setting.Mode mode.Through)))
    × (says (codes "timeout pass") ≡ Ok (Happens (event.Timeout party.Pass)))
    × (says (codes "timeout both") ≡ Err fault.BadChoice)
    × (says (codes "aaa-noreq") ≡ Ok (Happens event.AaaNoReq))
    × (says (codes "inject pass-server -") ≡ Ok (Happens (event.Inject port.PassServer [])))
    × (says (codes "peer-methods 51 47") ≡ Ok (Set (setting.PeerMethods (51 ∷ 47 ∷ []))))
    × (says (codes "peer-methods 47 -") ≡ Err fault.BadNumber)
    × (says (codes "peer-suites 1 1") ≡ Err fault.Repeated)
unfolding line_has keyword_in item_of spells_octets
choices = (refl, refl, refl, refl, refl, refl, refl, refl)

-- the fault decides, and not the word: the last word's choice, the kind, the hex digits, the sizes
users : (says (codes "user  48 0g maybe") ≡ Err fault.BadChoice)
    × (says (codes "user  48 0g barred") ≡ Err fault.BadNumber)
    × (says (codes "user  47 0g barred") ≡ Err fault.BadHex)
    × (says (codes "user  47 000102030405060708090a0b0c0d0e0f barred") ≡ Err fault.BadSize)
unfolding line_has keyword_in item_of spells_octets
users = (refl, refl, refl, refl)

-- the words of the second version are none of the first
later_words : (says (codes "restart peer") ≡ Err fault.BadWord)
    × (says (codes "peer-expanded no") ≡ Err fault.BadWord)
    × (means_in Second (codes "restart pass") ≡ Ok (Happens (event.Restart party.Pass)))
    × (means_in Second (codes "restart peer") ≡ Ok (Happens (event.Restart party.Peer)))
    × (means_in Second (codes "restart pass-peer") ≡ Err fault.BadChoice)
    × (means_in Second (codes "restart") ≡ Err fault.BadCount)
    × (means_in Second (codes "server-expanded no") ≡ Ok (Set (setting.ServerExpanded false)))
    × (means_in Second (codes "server-expanded yes") ≡ Ok (Set (setting.ServerExpanded true)))
    × (means_in Second (codes "peer-expanded maybe") ≡ Err fault.BadChoice)
    × (means_in Second (codes "deliver 1") ≡ Ok (Happens (event.Deliver 1)))
unfolding line_has keyword_in item_of spells_number
later_words = (refl, refl, refl, refl, refl, refl, refl, refl, refl, refl)

nonce : List ℕ
nonce = replicate 64 48

-- the settings that are needed, in any order
abbrev front : List (List ℕ)
front =
    codes "server-name home" ∷ codes "" ∷ codes "mode alone" ∷ codes "peer-name alice"
    ∷ codes "peer-server any" ∷ codes "peer-methods -"
    ∷ (codes "peer-nonce " ++ nonce) ∷ codes "server-methods -" ∷ codes "# no user"
    ∷ (codes "server-nonce " ++ nonce) ∷ []

abbrev sample : List (List ℕ)
sample = codes "eap-scenario 1"
    ∷ (front ++ codes "events" ∷ codes "idle" ∷ codes "deliver 2" ∷ codes "end" ∷ codes "" ∷ [])

abbrev setup : Later → Setup
setup later = record plain_setup {
  peer = record plain_peer { accepts = Any; nonce = replicate 32 0 };
  server = record plain_server { name = codes "home"; nonce = replicate 32 0 };
  later = later;
}

reads : read_all sample
    ≡ Ok (record { setup = Some (setup no_later); events = event.Idle ∷ event.Deliver 2 ∷ [] })
unfolding read_lines read_line texts.read_line read_body body_has line_has keyword_in item_of
    spells_number spells_octets peer_setup_of server_setup_of setup_of with_user nonce
reads = refl

stands : IsScript sample
    (record { setup = Some (setup no_later); events = event.Idle ∷ event.Deliver 2 ∷ [] })
stands = scenarios_are_read.only sample _ reads

-- in the second version the nonces come again, in their order
ones : List ℕ
ones = replicate 64 49

abbrev later_sample : List (List ℕ)
later_sample =
    codes "eap-scenario 2" ∷ (codes "peer-expanded no" ∷ front ++ (codes "peer-nonce " ++ ones)
    ∷ (codes "peer-nonce " ++ nonce) ∷ codes "events" ∷ codes "restart peer" ∷ codes "end" ∷ [])

reads_later : read_all later_sample
    ≡ Ok (record {
      setup = Some (setup
          (record { version = 2; peer = replicate 32 17 ∷ replicate 32 0 ∷ []; server = [] }));
      events = event.Restart party.Peer ∷ [];
    })
unfolding read_lines read_line texts.read_line read_body body_has line_has
    keyword_in item_of spells_number spells_octets with_later peer_setup_of server_setup_of setup_of
    with_user nonce ones
reads_later = refl

nonces : ℕ → List (List ℕ)
nonces count = replicate count (codes "server-nonce " ++ nonce)

twice : (read_all (codes "eap-scenario 1" ∷ nonces 2) ≡ Err fault.Repeated)
    × (read_all (codes "eap-scenario 2" ∷ nonces 16) ≡ Err fault.Missing)
    × (read_all (codes "eap-scenario 2" ∷ nonces 17) ≡ Err fault.BadCount)
    × (read_all (codes "eap-scenario 3" ∷ []) ≡ Err fault.NoHeader)
unfolding read_lines read_line texts.read_line read_body body_has line_has keyword_in item_of
    spells_octets with_later nonce nonces
twice = (refl, refl, refl, refl)

refused : (read_all [] ≡ Err fault.NoHeader)
    × (read_all (codes "eap-scenario 1" ∷ front) ≡ Err fault.Missing)
    × (read_all (codes "eap-scenario 1" ∷ codes "events" ∷ []) ≡ Err fault.Missing)
    × (read_all (codes "eap-scenario 1" ∷ codes "first-id 1" ∷ codes "first-id 1" ∷ [])
    ≡ Err fault.Repeated)
    × (read_all (codes "eap-scenario 1" ∷ codes "end" ∷ []) ≡ Err fault.Order)
unfolding read_lines read_line texts.read_line read_body body_has line_has keyword_in item_of
    spells_number spells_octets peer_setup_of server_setup_of setup_of with_user nonce
refused = (refl, refl, refl, refl, refl)
