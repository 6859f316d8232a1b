pub mod MembersLemmas
