-- A run behind others: from a world whose parties have just begun again, events in which no party
-- begins again do what they do in a run of its own.
use Rattle.std.specs.Prelude.{◌≡◌, ℕ, ◌+◌, List, ◌++◌, length, map, Bool, true, false, ◌==◌, ◌||◌}
use Rattle.std.specs.Prelude.{if◌then◌else◌, All}
use Rattle.login_setup.specs.declared.event.Event.{Event}
use Rattle.login_setup.specs.declared.event.Event.TheVariants as event
use Rattle.login_setup.specs.declared.setup.Setup.{Setup}
use Rattle.eap_world.specs.Sent.{Sent}
use Rattle.eap_world.specs.World.{WorldNow, run_after}
use Rattle.tag_book.specs.declared.book.Entry.{Entry}
use Rattle.smooth_laws.specs.Again.{HasJustStarted}
use Rattle.world_laws.specs.Runs.{run_of}

-- an entry so many events later
abbrev pub later : ℕ → Entry → Entry
later shift e = record e { event = shift + e.event }

-- the one world goes on from a moment as the other does from its start: its parties are the same,
-- and so what they report; its packets, tags and counts are those that it had and then the other's;
-- an end has had a report if it had one then, or has had one in the other; the conversations that
-- have begun, and whether their nonces were fresh, are as they were then
pub record Follows (since : WorldNow) (before : List Sent) (w v : WorldNow) : Type 0 where
  pub parties : w.parties ≡ v.parties
  pub sent : w.sent ≡ before ++ v.sent
  pub events : w.counts.events ≡ since.counts.events + v.counts.events
  pub deliveries : w.counts.deliveries ≡ since.counts.deliveries + v.counts.deliveries
  pub discards : w.counts.discards ≡ since.counts.discards + v.counts.discards
  pub peer_reported : w.held.peer ≡ (since.held.peer || v.held.peer)
  pub server_reported : w.held.server ≡ (since.held.server || v.held.server)
  pub book : w.book ≡ since.book ++ map (later since.counts.events) v.book
  pub begun : w.conversations.begun ≡ since.conversations.begun
  pub fresh : w.conversations.fresh ≡ since.conversations.fresh

-- the number of a packet behind so many others; 0 is the number of none
abbrev pub number_behind : ℕ → ℕ → ℕ
number_behind shift n = if n == 0 then 0 else shift + n

-- the same event of the packet behind so many others
abbrev pub event_past : ℕ → Event → Event
event_past shift (event.Deliver n) = event.Deliver (number_behind shift n)
event_past shift (event.Alter n place mask) = event.Alter (number_behind shift n) place mask
event_past shift (event.Cut n keep) = event.Cut (number_behind shift n) keep
event_past shift e = e

abbrev pub is_restart : Event → Bool
is_restart (event.Restart party) = true
is_restart e = false

-- whatever is delivered, altered, cut, injected or reported
abbrev pub RunsGoOnAsTheirOwn : Type 0
RunsGoOnAsTheirOwn =
    (setup : Setup) (w : WorldNow) (begun : HasJustStarted setup w) (events : List Event)
    → All (λ (e : Event). is_restart e ≡ false) events →
    Follows w begun.before (run_after w (map (event_past (length begun.before)) events))
    (run_of setup events)
