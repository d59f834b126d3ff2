-- What the pass-through makes of octets goes to one side, and is nothing new if it sends nothing.
pub mod Forwarding
