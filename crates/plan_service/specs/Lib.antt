pub mod ServicePlans
