-- From a test over all octets, which computes, to the rule at each.
pub mod Octets
-- The table of the S-box, octet by octet: by one test over all octets, which computes.
pub mod Sbox
-- Sums in the field, which are `bit_xor`.
pub mod Xor
-- Sixteen lanes, one by one.
pub mod Sixteen
-- The tables of halves, octet by octet: each by a test over all octets, which computes.
pub mod HalfTests
-- The steps of an inversion by halves, over all lanes.
pub mod Inverting
-- The turned basis, octet by octet.
pub mod Basis
-- What the code does to sixteen lanes is what the definitions do to a state.
pub mod Lanewise
-- How one round key follows from the one before it.
pub mod Schedule
-- The key expansion, lane by lane.
pub mod KeyLanes
-- The first round key, and the rounds one by one.
pub mod RoundByRound
-- An encryption is a block. The inverse of an octet is the only one.
pub mod Laws
-- The definition gives the standard's example.
pub mod Example
-- The round tables, entry by entry: each by one test over all octets, which computes.
pub mod WordTables
-- States by their columns as words.
pub mod Columns
-- Mixing a column can be undone.
pub mod Unmixing
-- Each step of an encryption can be undone.
pub mod Differing
-- Words by their bits, and octets by eight bits.
pub mod SliceBits
-- The transposition of eight words, which loads states and stores them.
pub mod Transposing
-- The S-box of octets by slices.
pub mod SlicedBox
-- The steps of the cipher on octets by slices.
pub mod SlicedSteps
-- The key expansion by slices.
pub mod SlicedKeys
