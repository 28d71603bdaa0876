pub mod Sites
pub mod SitesRight
pub mod SitesLaws
