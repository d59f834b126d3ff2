-- Which texts are plain: each of their lines begins with a number, or with a word of its own.
pub mod PlainTexts
-- Which lines of the end tell the verdicts.
pub mod Verdicts
