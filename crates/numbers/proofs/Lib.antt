pub mod ReplyLaws
