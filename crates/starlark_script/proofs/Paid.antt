-- Each read takes a byte at least, but for the last.
use Rattle.std.proofs.Common.{ℕ, Option, None, Some, List, arith}
use Rattle.starlark_script.specs.Coming.{Pays}

pub pays_more : (a b c e : ℕ) (x y z : Option (List ℕ)) → Pays a b 0 x y → Pays b c e y z → Pays a c e x z
pays_more a b c e None y z h k = tt
pays_more a b c e (Some xs) None z h k = absurd h
pays_more a b c e (Some xs) (Some ys) None h k = absurd k
pays_more a b c e (Some xs) (Some ys) (Some zs) h k = omega arith
