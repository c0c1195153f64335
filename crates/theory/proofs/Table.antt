-- The Lyndon table. Laws that rest on what a must-fail edit changes; the others: specs/Table.
--   LyndonTableCflIn, LyndonTableNext       its entries by the strict cut and by the next smaller suffix
--   Merging         the table from right to left: neighbouring anti-Lyndon words make one
pub mod LyndonTableCflIn
pub mod LyndonTableNext
pub mod Merging
