-- What the loops over a word know, one letter after another.
--   Period          the least period of an inverse Lyndon word, and one letter more
--   Scanned         what a scan knows of the letters that it has read
--   ScannedBorders  the borders of a scanned prefix, and the walk along them to the shortest r
pub mod Period
pub mod Scanned
pub mod ScannedBorders
