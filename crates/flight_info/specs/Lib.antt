pub mod Payloads
pub mod Replies
pub mod Tables
pub mod QueryMeaning
pub mod Forms
pub mod Infos
pub mod QueryPlan
pub mod inside
