pub mod FairRemains
