-- What a line can say at each place of an end's text, and how far the text has come then.
pub mod EndSteps
-- What has been read of an end's text is within its limits.
pub mod EndValid
-- One more input at the end of others: what is told of it comes last, and the end is where it
-- leaves it.
mod Folding
-- A stand-alone server that has started stays one, whatever comes to it.
mod Serving
-- An end whose objects are of the two methods alone that its text can name, one at least of each
-- that it names, begins as over lines.
pub mod BothMethods
