pub mod IcflCases
