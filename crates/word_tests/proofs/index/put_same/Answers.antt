use Rattle.std.proofs.Common.{◌<◌, ◌≤◌, ℕ, replicate, take, arith}
use Rattle.std.proofs.lemmas.List.{length-replicate, take-replicate}
use Rattle.std.proofs.lemmas.List.Elements.{All-replicate}
use Rattle.cx_base.specs.Store.{IsDocument}
use Rattle.word_tests.proofs.index.put_same.Goals as goal

-- `len` bytes that are all `byte` are a document: they are 1 to 1024 bytes, none of which is below 32
same : (len byte : ℕ) → 32 ≤ byte → byte < 256 → 1 ≤ len → len ≤ 1024 → IsDocument (take len (replicate 1024 byte))
same len byte plain small some short =
    rw (take-replicate len 1024 byte short) (record {
      some = rw length-replicate some;
      short = rw length-replicate short;
      plain = All-replicate (λ b. (32 ≤ b) × (b < 256)) len byte (plain, small);
    })

-- what is put is a document: it is the first `len` of 1024 equal bytes
pub put-requires-clause-document : goal.put-requires-clause-document
put-requires-clause-document g c = same c.args.len c.args.byte c.requires.plain (omega arith) c.requires.some c.requires.short
