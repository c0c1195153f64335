pub mod EndsAdmitted
pub mod BitLengths
pub mod SummaryLaws
pub mod Summing
pub mod LatestLongest
pub mod BandsSum
