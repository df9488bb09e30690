pub mod Below
pub mod Roles
pub mod Parts
pub mod Leads
pub mod Signs
pub mod Lists
pub mod WithRoles
