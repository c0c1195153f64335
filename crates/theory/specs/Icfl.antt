-- The factorization into inverse Lyndon words: its factors and one step of it.
--   Extension       p, r and the letter after r: what a step needs, and that it joins rightly
--   Failing         the shortest failing prefix, and its shortest suffix above it
--   BorderLength    paper 01's |r| is the length of that suffix but for one letter (border-least, step_is)
--   BoundedExtension  L, |p| and |r| are as paper 01 describes them (extension-is), and no other numbers are (extension-only)
--   IcflFactors     the computed factors; IcflConcat and IcflDominated have the theorems
pub mod Extension
pub mod Failing
pub mod BorderLength
pub mod BoundedExtension
pub mod IcflFactors
pub mod IcflConcat
pub mod IcflDominated
