-- The world over an interleaving is each end over its own inputs.
mod Interleaved
-- Two ends that run alone agree where the tags of their interleaving are honest.
mod JoinedAgreement
-- The book of the world over an interleaving is that of the tags which both ends tell.
mod BookDetermined
-- Over an interleaving no end of the world begins a second conversation.
mod OneConversation
-- An end that runs alone is the present conversation of a world whose other end has no inputs.
mod EndsAlone
