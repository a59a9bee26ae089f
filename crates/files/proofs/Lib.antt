-- Laws of front files. For callers: answers are determined (AnswerLaws), and reading what was written and writing what was read give the
-- same (RoundLaws); the file of a list is determined and by its blocks (FileLaws, UniqueLaws); case P11 (CaseLaws).
-- For the code: stores in a block (PutLaws, PointLaws), blocks of a file (BlockLaws), what writing and reading conclude
-- (WriteLaws, ReadLaws).
pub mod PutLaws
pub mod PointLaws
pub mod BlockLaws
pub mod WriteLaws
pub mod ReadLaws
pub mod UniqueLaws
pub mod FileLaws
pub mod AnswerLaws
pub mod RoundLaws
pub mod CaseLaws
