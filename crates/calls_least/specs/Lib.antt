pub mod LeastCall
