use Rattle.std.proofs.Common.{length, sym, ap, arith}
use Rattle.std.proofs.lemmas.Fmt.{decimal_digit, length-decimal-le}
use Rattle.text.proofs.Writing.{decimal_long}
use Rattle.text.proofs.put.+digits_len.Goals as goal

pub returns-then-n-lt10 : goal.returns-then-n-lt10
returns-then-n-lt10 t c = record { is = sym (ap length (decimal_digit c.args.n (omega arith))); small = omega arith }

pub returns-else-n-lt10 : goal.returns-else-n-lt10
returns-else-n-lt10 t c =
    let long = decimal_long c.args.n (omega arith) (omega arith) in
    record { is = omega (arith, long); small = omega (arith, long, length-decimal-le 20 c.args.n (omega arith) (omega arith) (omega arith)) }
