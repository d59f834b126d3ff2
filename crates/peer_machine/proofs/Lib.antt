-- Worked values of the definitions of Expanded Types.
mod Worked
-- A decoded Request is one that its method may be handed.
pub mod Requests
-- A method's turn, settled in the variables, is METHOD's row.
pub mod Settling
-- What the first object of a method shows is the method's view.
pub mod Selected
-- What the peer makes of an input is one of the rows of its table.
pub mod PeerRows
-- What a delivery comes to: the row of its table, a refusal, or the row of the plain form,
-- expressed.
pub mod Receiving
-- A discard changes nothing.
pub mod Discards
-- The settings with another nonce are sound.
pub mod Restarting
-- The Identifier of a packet is the second octet of what begins with it, and of its plain form.
pub mod Identifiers
-- A success that nothing can undo stays.
pub mod UnconditionalSuccess
