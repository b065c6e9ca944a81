pub mod CoverLemmas
pub mod GrowthLemmas
pub mod PageLemmas
pub mod IdLemmas
pub mod KeepLemmas
pub mod LineLemmas
pub mod SurveyLemmas
pub mod LiftedLemmas
