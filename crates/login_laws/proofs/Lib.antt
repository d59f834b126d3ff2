-- What one end's success tells by itself of the other end.
pub mod Alone
-- The conversations of every run match, and the success of one end tells of the other.
pub mod Conversations
-- Over an honest book and fresh nonces two ends that both stand in SUCCESS agree.
pub mod FreshAgree
-- The login of an end that has succeeded by EAP-GPSK is that of the other end's conversation on
-- whose tags it rests.
pub mod GpskLogins
-- In every run two ends that both stand in SUCCESS agree, where the book is honest.
pub mod HonestRuns
-- To what the login of a conversation leads, beside what the other end reports.
pub mod Results
-- Each conversation in SUCCESS rests on one of the other end, and no two of an end on the same.
pub mod Matching
-- Two ends in success are in one login: the order of their conversations alone shows it.
pub mod OneLogin
-- The login of an end that has succeeded by EAP-PSK is that of the other end's conversation on
-- whose tags it rests.
pub mod PskLogins
-- Matching conversations by EAP-PSK.
pub mod PskMatching
-- No end takes its own tags for the other's, in whichever conversation it made them, where the peer
-- succeeds by EAP-PSK.
pub mod PskReflected
-- Nor where it succeeds by EAP-GPSK, if its nonce can't be read as the beginning of its name.
pub mod GpskReflected
-- A tag that the server accepted and can't have made is the peer's.
pub mod Reflected
-- Two conversations of which one rests on the other are of one method, and their logins lead to the
-- same.
pub mod Resting
-- In every run, what two ends that both stand in SUCCESS report over an honest book is their own:
-- names, key and suite.
pub mod Owner
-- The conversations of both ends, on what they rest, and whether they are fresh, computed from the
-- definitions alone.
mod WorkedMatching
-- A server in SUCCESS has accepted tags of its user's key.
pub mod UserKeys
-- What the honesty of the tags under a key says of them in the whole book.
pub mod KeyedTags
-- Matching conversations of one user of the server.
pub mod UnderKey
-- Two present ends in SUCCESS agree, and one end's success tells of the other, if the tags under
-- the peer's key are honest.
pub mod PresentUnderKey
-- Both ends of one login make one Session-Id, and no two logins of the peer with fresh nonces do.
pub mod SessionIds
-- A book that is honest is honest under each key.
pub mod HonestUnder
-- The entries of a run's book are right MACs of its conversations, and a book that isn't honest
-- shows one that was not computed before.
pub mod Forgery
-- By EAP-PSK a peer whose decision isn't FAIL has decided for a success that nothing can undo.
pub mod UnconditionalPsk
-- By EAP-PSK no two conversations of the peer with fresh nonces have one MSK or one EMSK.
pub mod NewKeys
-- Two ends in SUCCESS by the two methods agree, and what they report is their own.
pub mod SucceedingEnds
-- A proposal that is refused between ends that read Expanded Types, computed from the definitions
-- alone.
mod WorkedExpanded
-- The conversations of any number of runs match.
pub mod AnyEnds
-- A server by EAP-GPSK is confirmed.
pub mod Confirmed
-- The MAC of GPSK-2 covers the length of the peer's name first, that of GPSK-3 the peer's nonce.
pub mod OwnTags
-- A server reports the name of one of its users.
pub mod Identity
