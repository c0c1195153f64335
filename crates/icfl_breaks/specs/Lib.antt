pub mod IcflBreaks
