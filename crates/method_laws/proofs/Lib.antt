-- The fields of a Request and of a Response, read off their octets.
mod Packets
-- What the tests of the turns tell.
mod Tests
-- The turns of a peer of EAP-GPSK, by cases.
pub mod GpskPeerCases
-- The turns of a server of EAP-GPSK, by cases.
pub mod GpskServerCases
-- The turns of a peer of EAP-PSK, by cases.
pub mod PskPeerCases
-- The turns of a server of EAP-PSK, by cases.
pub mod PskServerCases
-- A whole login by EAP-GPSK.
pub mod GpskWhole
-- PCHANNEL (RFC 4764 section 5.3): what one end seals, the other opens under the same header.
pub mod PskChannel
-- A whole login by EAP-PSK.
pub mod PskWhole
-- Which record of a short list it is.
pub mod Among
-- Two joins that are equal, cut into their parts.
pub mod Fields
-- The sizes of the nonces that a reader of EAP-GPSK gives.
pub mod GpskFields
-- The nonces of GPSK-1 and GPSK-2 stand in their octets.
pub mod GpskNonces
-- Each turn of a peer's method EAP-GPSK: of what came it holds RAND_Server alone, it answers the
-- Request, and its view tells the tags.
pub mod GpskPeerTurns
-- Each turn of a server's method EAP-GPSK: of what came it holds RAND_Peer alone, it asks with the
-- next Identifier, and its view tells the tags.
pub mod GpskServerTurns
-- What an end holds of the other's nonce after a call: what it held before, or what came in it.
pub mod Receiving
-- Over an honest book each tag that an end accepted is one that the other end made.
pub mod HonestOther
-- An end has one method at a time.
pub mod OneMethod
-- The peer by the method of a Type: what holds of the turns, the nonce and the tags of each method
-- holds of a Type's.
pub mod PeerByMethod
-- A peer's objects stay of their methods; those of the two stay so.
pub mod PeerObjects
-- What is asked of a turn of a peer's method: each Response has the Identifier of the Request, and
-- the view after it tells the tags.
pub mod PeerTurns
-- The sizes of the nonces that a reader of EAP-PSK gives.
pub mod PskFields
-- The header that EAX covers of an EAP-PSK message ends in RAND_S.
pub mod PskHeaders
-- The nonces of PSK-1 and PSK-2 stand in their octets.
pub mod PskNonces
-- Each turn of a peer's method EAP-PSK: of what came it holds RAND_S alone, it answers the Request,
-- and its view tells the tags.
pub mod PskPeerTurns
-- Each turn of a server's method EAP-PSK: of what came it holds RAND_P alone, it asks with the next
-- Identifier, and its view tells the tags.
pub mod PskServerTurns
-- The server by the method of a Type: what holds of the turns, the offer, the nonce and the tags of
-- each method holds of a Type's.
pub mod ServerByMethod
-- A server's objects stay of their methods; those of the two stay so.
pub mod ServerObjects
-- What is asked of a turn of a server's method: each Request has the next Identifier, and the view
-- after it tells the tags.
pub mod ServerTurns
-- Octets that stand in others, one after the other.
pub mod Occurrence
-- The tags of each end in a book that grows, and what its honesty says of them.
pub mod TagsOfEnds
-- A peer's object that has begun, or has made one Response more, has a history, whatever its
-- method.
pub mod PeerHistories
-- What the history of a peer's method tells, by one induction over all methods: by EAP-PSK and
-- EAP-GPSK its tags, and of a decision other than FAIL a success.
pub mod PeerImplied
-- A server's object that has made its first Request, has made one more or has ended, has a history,
-- whatever its method.
pub mod ServerHistories
-- What the history of a server's method tells, by one induction over all methods: by EAP-PSK and
-- EAP-GPSK its tags, and of a good end a success.
pub mod ServerImplied
-- What each end asks of the other by the first tag that it accepts.
pub mod Asks
-- What a tag that the peer made by EAP-GPSK tells of the conversation in which it did: both nonces,
-- whole.
pub mod GpskPeerOwners
-- What a tag that the server made by EAP-GPSK tells of the conversation in which it did; and what
-- each end asks by its first tag.
pub mod GpskServerOwners
-- By EAP-GPSK two conversations of which one rests on the other hold the whole of each other's
-- nonces.
pub mod GpskNoncesWhole
-- The PSK-4 that a server accepts tells which conversation of the peer made it: that has accepted
-- PSK-3.
pub mod PskAnswered
-- What a tag that the peer made by EAP-PSK tells of the conversation in which it did: both nonces.
pub mod PskPeerOwners
-- What a tag that the server made by EAP-PSK tells of the conversation in which it did; and what
-- each end asks by its first tag.
pub mod PskServerOwners
-- A server that holds a nonce of the peer asks so of it, by either method.
pub mod ServerAsks
-- Each tag that a conversation accepted or made is the right MAC of its octets, under a key that
-- the conversation derives.
pub mod RightMacs
-- What the peer brings into a method is its setup's.
pub mod Credentials
-- Two ends that have succeeded by EAP-GPSK agree, and what they report is their own.
pub mod GpskAgrees
-- Two ends that have succeeded by EAP-PSK agree, and what they report is their own.
pub mod PskAgrees
-- Two ends of EAP-PSK or EAP-GPSK that have succeeded agree, where the first tag that each accepted
-- is one that either end made.
pub mod Succeeding
-- A report whose suite is among these, if its method has one, passes the test of it.
pub mod AllowedSuites
-- The tags of one conversation are under one key: those of a peer that has succeeded under its own
-- for the method, those of a server that has succeeded under its user's.
pub mod OneKey
-- An end asks so of the other by either method; and an end in SUCCESS has accepted a tag.
pub mod AsksByMethod
-- Each Response of a peer's method is of the method's Type, which is neither Nak nor Expanded.
pub mod PeerKinds
