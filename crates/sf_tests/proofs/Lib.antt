pub mod FetchRow
