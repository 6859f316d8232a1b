pub mod HingeRows
