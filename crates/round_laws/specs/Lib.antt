pub mod ReplayingOrders
pub mod LastValues
