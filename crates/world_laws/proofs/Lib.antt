-- An event is skipped, or is a call of one party.
pub mod Acting
-- An end that has no later nonces never begins a second conversation.
pub mod StartsOnce
-- In every run the conversations of both ends are as told.
pub mod Conversing
-- Each entry of the book is of an event that has been, and which are of an end's present
-- conversation.
pub mod Dates
-- An event that is discarded changes nothing but the counts, and each report that an end holds was
-- told of.
pub mod Discards
-- What holds of all conversations of an end in a run, by what holds of each event.
pub mod EachOf
-- What each event does to the conversations of both ends: the present one goes on, or the next one
-- begins.
pub mod EachTurn
-- In every run both ends stand as their views tell, in their present conversations.
pub mod EndInvariants
-- Equal reports that both policies allow agree.
pub mod EqualReports
-- Every run sends few packets, and its book holds few tags.
pub mod Few
-- The world tells whether a run is fresh.
pub mod FreshRuns
-- A book that is honest by the other end's tags alone is honest by those of either end.
pub mod HonestOfEither
-- What each party sent last is the last packet to the port where its packets go.
pub mod LastSent
-- The nonces that an end has left, those with which conversations have begun, and which nonce is
-- new.
pub mod NoncesLeft
-- Conversations among others, and their tags among all.
pub mod OneOf
-- What the pass-through sends: what came, on to the other side, or the last packet to the peer
-- again.
pub mod PassSpeaks
-- The pass-through in a run is the pass-through alone over what comes to it, which is what was sent
-- or injected.
pub mod Passing
-- What holds of the conversations of an end, past and present.
pub mod PastConversations
-- What the peer hears of the server's nonce stands in what came.
pub mod PeerReceives
-- Every input of the peer keeps what stands of it, but for the begin of a new conversation.
pub mod PeerPreserves
-- What the peer sends: a Response to what came, new or as it was sent before.
pub mod PeerSpeaks
-- What the server hears of the peer's nonce stands in what came.
pub mod ServerAccepts
-- Every input of the server after its start keeps what stands of it, but for the begin of a new
-- conversation.
pub mod ServerPreserves
-- What the server sends: a Request with the next Identifier, the last one again, or its end.
pub mod ServerSpeaks
-- Each step of a run is lawful.
pub mod SingleSteps
-- An event that is skipped changes nothing but the number of events.
pub mod Skips
-- Two ends in SUCCESS whose methods agree, agree, where the first tag that each accepted is one
-- that
-- either end made.
pub mod SucceedingEnds
-- What holds of each answer of a table, and of each delivery as it is heard, holds of all that an
-- end takes.
pub mod Accepting
-- The Type-Data of a packet stands in the octets that begin with it.
pub mod TypeData
-- The version of a scenario's text stays in its world.
pub mod Versions
-- The Identity round (RFC 3748 section 2), computed from the definitions alone.
mod Worked
-- What is heard, used and fresh, computed from the definitions alone.
mod WorkedFreshness
-- A server that has taken no Nak in its present conversation is at the first method of its order,
-- or at none.
pub mod Downgrade
-- Each Nak that the peer sends anew answers a Request of a Type that it doesn't allow.
pub mod NakAnswers
-- A world whose ends have objects of the two methods alone, one at least of each method that they
-- name, begins as its run.
pub mod Standard
-- Octets that stand in others are found in them.
pub mod OccursIn
-- An end that goes on doesn't stand in SUCCESS.
pub mod Unended
-- The method that a server proposes is offered by an object of it.
pub mod Proposing
-- What stands of an end tells its tags and its success.
pub mod EndTags
-- In every run two ends in SUCCESS whose methods agree, agree.
pub mod MethodsAgree
