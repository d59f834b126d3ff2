-- Numbers that stand among others, and outcomes that are chosen by one test.
pub mod Amongs
-- An outcome that keeps the view where its turn is a discard.
pub mod Discards
-- A discard leaves the view of EAP-GPSK as it is.
pub mod GpskDiscards
-- Facts about lists of any elements.
pub mod Lists
-- The key that a peer brings into a method that it allows fits it.
pub mod PeerKeys
-- The first object of a method in a peer's list of objects decides what the views of the list do.
pub mod PeerObjects
-- The one server name that a peer accepts is its server's.
pub mod PeerSides
-- The views of a peer by method: each is put and found by its Type, and decides the turn and the
-- report.
pub mod PeerViews
-- A discard leaves the view of EAP-PSK as it is.
pub mod PskDiscards
-- The octets that a MAC of EAP-PSK covers, from their pieces.
pub mod PskMacs
-- A packet that is spelled has room for an Expanded Type where its Type-Data is short enough.
pub mod Capacities
-- The first object of a method in a server's list of objects decides what the views of the list do.
pub mod ServerObjects
-- The views of a server by method: each is put and found by its Type, and decides the offer, the
-- turn and the report.
pub mod ServerViews
-- A tag's record is the same as itself, and records that are the same are under the same keys.
pub mod TagRecords
-- The objects of the methods that an end doesn't name stay, whichever of the others begins or has a
-- turn.
pub mod Unnamed
-- Rows that were worked: which objects an end doesn't name.
pub mod Worked
-- A peer whose objects are of EAP-PSK and EAP-GPSK, one at least of each method that it allows,
-- begins as one that has one of each.
pub mod BothPeers
-- A server whose objects are of EAP-PSK and EAP-GPSK, one at least of each method that it proposes,
-- begins as one that has one of each.
pub mod BothServers
-- Where an end has an object of both methods, it has one of each method that settings can name.
mod BothMethods
