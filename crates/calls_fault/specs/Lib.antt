pub mod FaultCall
