-- The command replay: a scenario is read line by line, and each event is run as it comes.
use Rattle.std.specs.Prelude.{◌≡◌, ℕ, List, [], Bool, true, false, nat_le, if◌then◌else◌, Option}
use Rattle.std.specs.Prelude.{Some, None, Result, Ok, Err, codes, map, option_map, IfSome, IsTrue}
use Rattle.login_setup.specs.declared.event.Event.{Event}
use Rattle.login_setup.specs.Setup.{are_kinds}
use Rattle.login_setup.specs.declared.setup.Setup.{Setup}
use Rattle.eap_method.specs.BothPeers as both_peers
use Rattle.eap_method.specs.BothServers as both_servers
use Rattle.eap_method.specs.Peer.{PeerShown, peer_kinds, have_each}
use Rattle.eap_method.specs.Server.{ServerShown, server_kinds}
use Rattle.eap_world.specs.World.{HasObjects, WorldNow, now_of, world_start, world_step}
use Rattle.eap_method.specs.declared.values.Methods.{Methods}
use Rattle.text_tables.specs.Words.{fault_word}
use Rattle.scenario_text.specs.Reading.{Reading, ReadLine, read_line, finish_of}
use Rattle.text_tables.specs.declared.fault.LineFault.{LineFault}
use Rattle.scenario_text.specs.Items.{Item}
use Rattle.scenario_text.specs.Items as item
use Rattle.trace_text.specs.Run.{start_line_text, outcome_text, end_text}
use Rattle.command_driver.specs.Commands.{LineResult, Closing, goes, refuses, ends, misses}
use Rattle.world_commands.specs.declared.replay.Replay.{Replay}
use Rattle.command_driver.specs.declared.status.Status.TheVariants as status
use Rattle.world_laws.specs.Runs.{initial_world}

-- the events of a scenario are at most 10,000
abbrev pub max_events : ℕ
max_events = 10000

-- what of the command decides its lines: whether octets and key names are written, what has been
-- read, and the world from the line `events` on
pub record ReplayNow : Type 0 where
  pub names : Bool
  pub reader : Reading
  pub world : Option WorldNow

module _ {P S : Type 0} (peer_shown : P → PeerShown) (server_shown : S → ServerShown) where
  abbrev pub seen_of : Replay P S → ReplayNow
  seen_of c = record {
    names = c.names;
    reader = c.reader;
    world = option_map (now_of peer_shown server_shown) c.world;
  }

  -- each end has an object of each method that settings can name
  pub record HasEach (methods : Methods P S) : Type 0 where
    pub peer : (kinds : List ℕ) → IsTrue (are_kinds kinds)
        → have_each (peer_kinds (map peer_shown methods.peer.items)) kinds ≡ true
    pub server : (kinds : List ℕ) → IsTrue (are_kinds kinds)
        → have_each (server_kinds (map server_shown methods.server.items)) kinds ≡ true

  -- and none of a method that settings can't name
  pub record HasBoth (methods : Methods P S) : Type 0 where
    pub peer : (kinds : List ℕ) → IsTrue (are_kinds kinds)
        → have_each (peer_kinds (map peer_shown methods.peer.items)) kinds ≡ true
    pub server : (kinds : List ℕ) → IsTrue (are_kinds kinds)
        → have_each (server_kinds (map server_shown methods.server.items)) kinds ≡ true
    pub both_peers : both_peers.are_both (map peer_shown methods.peer.items) ≡ true
    pub both_servers : both_servers.are_both (map server_shown methods.server.items) ≡ true

  abbrev pub AreThere : Option (Methods P S) → Type 0
  AreThere None = ⊥
  AreThere (Some methods) = HasBoth methods

  -- before the world begins the methods are there; a world has started, and each method of an end's
  -- settings has an object
  pub record IsReady (c : Replay P S) (lines : ℕ) : Type 0 where
    pub objects : c.world ≡ None → AreThere c.methods
    pub started : IfSome c.world (λ w. w.started ≡ true)
    pub each : IfSome c.world (λ w. HasObjects peer_shown server_shown w)

-- a line that brings nothing to write
abbrev pub proceeds_silently : ReplayNow → LineResult ReplayNow
proceeds_silently c = record { text = []; ruling = goes; after = c }

abbrev pub is_refused : ReplayNow → List ℕ → LineResult ReplayNow
is_refused c word = record { text = []; ruling = refuses word status.Refused; after = c }

-- the world has started or has taken an event, and its lines are written
abbrev pub proceeds_with : ReplayNow → List ℕ → WorldNow → LineResult ReplayNow
proceeds_with c text w = record { text = text; ruling = goes; after = record c { world = Some w } }

-- the line `events`: the world starts
abbrev pub starts_in : ReplayNow → Option WorldNow → Setup → LineResult ReplayNow
starts_in c None setup = proceeds_with c (start_line_text c.names
    (world_start (initial_world setup))) (world_start (initial_world setup)).after
starts_in c (Some w) setup = proceeds_silently c

abbrev pub starts : ReplayNow → Setup → LineResult ReplayNow
starts c setup = starts_in c c.world setup

-- an event: the world takes it, but for one too many
abbrev pub steps_in : ReplayNow → Option WorldNow → Event → LineResult ReplayNow
steps_in c None e = proceeds_silently c
steps_in c (Some w) e =
    if nat_le max_events w.counts.events
    then record { text = []; ruling = refuses (codes "TooMuch") status.TooMuch; after = c }
    else proceeds_with c (outcome_text c.names (world_step w e)) (world_step w e).after

abbrev pub steps : ReplayNow → Event → LineResult ReplayNow
steps c e = steps_in c c.world e

abbrev pub item_result : ReplayNow → Item → LineResult ReplayNow
item_result c item.Nothing = proceeds_silently c
item_result c (item.Ready setup) = starts c setup
item_result c (item.Event e) = steps c e
item_result c item.End = proceeds_silently c

abbrev pub reading_result : ReplayNow → Result ReadLine LineFault → LineResult ReplayNow
reading_result c (Err fault) = is_refused c (fault_word fault)
reading_result c (Ok r) = item_result (record c { reader = r.after }) r.item

-- the result of a line
unfoldable pub replay_step : ReplayNow → List ℕ → LineResult ReplayNow
replay_step c l = reading_result c (read_line c.reader l)

-- the end of the input
abbrev pub end_of : Option WorldNow → List ℕ
end_of None = []
end_of (Some w) = end_text w

abbrev pub closing_by : ReplayNow → Result (Unit {0}) LineFault → Closing
closing_by c (Ok done) = record { text = end_of c.world; closed = ends status.Done }
closing_by c (Err fault) = record { text = []; closed = misses (fault_word fault) }

unfoldable pub replay_closing : ReplayNow → Closing
replay_closing c = closing_by c (finish_of c.reader)

-- a start and an event may find memory wanting
abbrev pub item_lacks : Item → Bool
item_lacks item.Nothing = false
item_lacks (item.Ready setup) = true
item_lacks (item.Event e) = true
item_lacks item.End = false

abbrev pub reading_lacks : Result ReadLine LineFault → Bool
reading_lacks (Err fault) = false
reading_lacks (Ok r) = item_lacks r.item

unfoldable pub replay_lacks : ReplayNow → List ℕ → Bool
replay_lacks c l = reading_lacks (read_line c.reader l)
