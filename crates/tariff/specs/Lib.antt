-- The tariff's rules by subject: numbers, calendar and holidays, then terms, enrolment, deliveries, steps, closings and the bill.
pub mod Structs
pub mod Bounds
pub mod Amounts
pub mod Months
pub mod Dates
pub mod Holidays
pub mod Terms
pub mod Enrol
pub mod Delivery
pub mod Limits
pub mod Steps
pub mod Closing
pub mod Bill
pub mod Calendar
pub mod MeasurementDays
pub mod MarkedCases
