-- Octets drawn from a number.
pub mod Draws
-- The settings and the events of a conversation.
pub mod Conversation
-- The summary of the conversations of a number.
pub mod Summing
-- What a step does to a world.
pub mod RunningEnd
-- The objects of both ends, by their methods.
pub mod ObjectMethods
