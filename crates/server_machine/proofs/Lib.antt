-- What the server makes of an input is one of the rows of its table.
pub mod ServerRows
-- What a delivery comes to: the row of its table, a refusal, or the row of the plain form, whose
-- Request is wrapped.
pub mod Receiving
-- A discard changes nothing.
pub mod Discards
-- A decoded Response is one that its method may be handed.
pub mod Responses
-- An offer and a turn of a method, settled in the variables, are the server's rows.
pub mod Settling
-- What the first object of the current method shows is the method's view.
pub mod Current
-- What is sent by a server that reads Expanded Types.
pub mod Wrapping
-- No input changes the role, and a server to which octets may come stays one.
pub mod Starting
-- The settings with another nonce, or with other users whose keys fit, are sound.
pub mod Restarting
-- The readiness and the timer of a server that was made, and of one that has started, from the
-- definitions alone.
mod Worked
-- Worked values of a server that reads Expanded Types.
mod WorkedExpanded
