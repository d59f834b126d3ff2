-- What holds of the methods that there are, one by one.
pub mod AllKinds
-- The objects that are made one after the other are of the Types that are wanted, in their order.
pub mod Constructed
-- What is known of settings that aren't refused.
pub mod Taken
-- Settings that are taken and settings that are refused, and what they come to, at worked values.
mod WorkedRefusals
