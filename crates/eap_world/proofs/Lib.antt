-- The run goes on event by event.
pub mod EventByEvent
-- The nonces that are left, as they are kept, and whether the first two conversations differ.
pub mod TwoRecords
-- Octets are heard from their end, place by place.
pub mod ReceivedByPlaces
-- Which ends have been seen to hold a report, before an event: it stays where no end begins a new
-- conversation.
pub mod InConversation
-- The server of a world that has started has the role of the mode, and octets may come to it.
pub mod Serving
-- The objects that an end had it still has.
pub mod StillThere
-- What is stored stays where more is stored.
pub mod Storing
-- What is told of a call, with the report that is told.
pub mod Implying
