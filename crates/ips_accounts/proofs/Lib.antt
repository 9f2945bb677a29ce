mod Examples
pub mod Free
pub mod Lacking
pub mod Members
pub mod Others
pub mod GroupNames
pub mod Steps
pub mod Apart
pub mod Joined
pub mod Low
pub mod OtherGroups
pub mod NewUsers
pub mod NewGroups
pub mod Passwords
pub mod MembersStay
pub mod Joins
