-- What holds of each user that is known holds of one that is found.
mod UserKeys
-- What the last packet of a list shows.
mod LastShown
-- The name of a user, which a finding tells.
pub mod Names
-- Each method in a capture: the keys of its users, what is kept of one packet more, and the names
-- that findings tell.
mod GpskLaws
mod PskLaws
-- What is kept of a list of packets and one more, and the names that findings tell, by each method.
pub mod Preserving
-- The findings of worked packets.
mod Worked
