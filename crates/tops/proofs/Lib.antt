pub mod TopsLaws
