-- The line of a packet is its parts, one after the other.
pub mod PacketCuts
-- Writing a text part by part.
pub mod Fronts
-- Writing a line part by part, of which the last octets are held.
pub mod Putting
-- The states of a path, one by one.
pub mod States
-- Looking for a line in a text, octet by octet.
pub mod Scanning
-- Texts of whole lines, none of which begins with certain octets.
pub mod Plain
-- The words that stand within a line.
pub mod PlainWords
-- Which lines of an end are plain.
pub mod PlainPaths
-- No line with a name and octets begins as the line of the verdict does.
pub mod PlainKeys
-- The texts of each method stand within a line, or begin none as the line of the verdict does.
mod PlainGpsk
mod PlainPsk
-- No line of `decode` or `keys` begins as the line of the verdict does.
pub mod PlainAnswers
-- No line of `check` begins as the line of the verdict does.
pub mod PlainFindings
-- Lines of answers, computed from the definitions alone.
mod Worked
