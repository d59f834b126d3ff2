-- A packet that was spelled is read as it was, whatever octets it has.
mod Packets
-- A packet as it travels: as it is, or wrapped.
mod Carried
-- An Expanded Nak is read as the Nak that it was written for.
mod Naks
-- What the peer makes of each packet of a smooth login.
mod PeerSide
-- What the server, or the backend, makes of each.
mod ServerSide
-- What the pass-through makes of each.
mod PassSide
-- A book stays honest where each tag that an end accepts is one that the other made before.
mod Vouching
-- A delivery of the packet that was sent last: the world after it.
mod Moves
-- What one end sends comes to the other: in one delivery, or in two through the pass-through.
mod Exchange
-- A method's four messages, from its first Request to the Success.
mod Talk
-- The Identity round, up to the first Request of a method; and a Nak, up to that of the next.
mod Opening
-- What two ends that fit choose: the method, before and after a Nak, and the suite.
mod Choosing
-- A login by EAP-GPSK as both machines see it.
mod GpskTalk
-- A login by EAP-PSK as both machines see it.
mod PskTalk
-- The methods: which a server has, the first Request of each, and its turns where two ends fit by
-- it.
mod Methods
-- A smooth login succeeds within its bound.
pub mod SmoothRuns
-- Worked values of the definitions.
mod Worked
-- A run goes on in another world as in its own: what each event does there.
mod Following
-- Smooth logins after restarts.
pub mod Again
-- The settings of the parties stay through a run.
mod Settings
-- An end that has the objects of EAP-PSK and EAP-GPSK still begins as it did at first.
mod Beginning
-- Each party begins anew.
pub mod Restarts
-- A login after restarts of all parties succeeds.
pub mod LaterLogins
-- Worked values of the definitions of later logins.
mod WorkedAgain
