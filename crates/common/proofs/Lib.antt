pub mod NumberLaws
pub mod BeforeLaws
pub mod InOrderLaws
