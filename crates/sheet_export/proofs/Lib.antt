pub mod PlanLines
pub mod Spares
pub mod Printed
pub mod Records
