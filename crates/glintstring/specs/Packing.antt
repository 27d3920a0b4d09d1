-- An answer in one number of 64 bits, as the exported calls return it: the answer's number in bits 0 to 7, its input in bits 8 to 15, its
-- place in bits 16 to 31 and its count in bits 32 to 63.
use Rattle.std.specs.Prelude.{ℕ, ◌+◌, ◌*◌, ◌/◌, ◌%◌}
use Rattle.meaning.specs.declared.Answer.{Answer}

unfoldable pub packed : Answer → ℕ
packed a = a.number + 256 * a.input + 65536 * a.place + 4294967296 * a.count

-- And back, of any number.
unfoldable pub unpacked : ℕ → Answer
unpacked n = record { number = n % 256; input = n / 256 % 256; place = n / 65536 % 65536; count = n / 4294967296 }
