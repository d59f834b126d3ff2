-- The S-box as a circuit of sums and products of single bits (J. Boyar and R. Peralta, A new
-- combinational logic minimization technique with applications to cryptology, 2010), in five steps.
-- Its wires have the names that they have there.
use Rattle.std.specs.Prelude.{ℕ, ◌+◌, ◌%◌, min, List, [], ◌∷◌, slice_index}

-- the sum and the product of two bits
abbrev pub add : ℕ → ℕ → ℕ
add a b = (a + b) % 2

abbrev pub mul : ℕ → ℕ → ℕ
mul a b = min a b

-- y0 to y21: sums of the bits of an octet, of which y0 is bit 0 itself
unfoldable pub linear_sums : (ℕ → ℕ) → List ℕ
linear_sums bit =
    let y14 : ℕ = add (bit 4) (bit 2) in
    let y13 : ℕ = add (bit 7) (bit 1) in
    let y9 : ℕ = add (bit 7) (bit 4) in
    let y8 : ℕ = add (bit 7) (bit 2) in
    let t0 : ℕ = add (bit 6) (bit 5) in
    let y1 : ℕ = add t0 (bit 0) in
    let y4 : ℕ = add y1 (bit 4) in
    let y12 : ℕ = add y13 y14 in
    let y2 : ℕ = add y1 (bit 7) in
    let y5 : ℕ = add y1 (bit 1) in
    let y3 : ℕ = add y5 y8 in
    let t1 : ℕ = add (bit 3) y12 in
    let y15 : ℕ = add t1 (bit 2) in
    let y20 : ℕ = add t1 (bit 6) in
    let y6 : ℕ = add y15 (bit 0) in
    let y10 : ℕ = add y15 t0 in
    let y11 : ℕ = add y20 y9 in
    let y7 : ℕ = add (bit 0) y11 in
    let y17 : ℕ = add y10 y11 in
    let y19 : ℕ = add y10 y8 in
    let y16 : ℕ = add t0 y11 in
    let y21 : ℕ = add y13 y16 in
    let y18 : ℕ = add (bit 7) y16 in
    bit 0 ∷ y1 ∷ y2 ∷ y3 ∷ y4 ∷ y5 ∷ y6 ∷ y7 ∷ y8 ∷ y9 ∷ y10 ∷ y11 ∷ y12 ∷ y13 ∷ y14 ∷ y15 ∷
    y16 ∷ y17 ∷ y18 ∷ y19 ∷ y20 ∷ y21 ∷ []

-- t21 to t24: the bits of an element of the field of 16 elements
unfoldable pub inner_values : (ℕ → ℕ) → List ℕ
inner_values sums =
    let t2 : ℕ = mul (sums 12) (sums 15) in
    let t4 : ℕ = add (mul (sums 3) (sums 6)) t2 in
    let t6 : ℕ = add (mul (sums 4) (sums 0)) t2 in
    let t7 : ℕ = mul (sums 13) (sums 16) in
    let t9 : ℕ = add (mul (sums 5) (sums 1)) t7 in
    let t11 : ℕ = add (mul (sums 2) (sums 7)) t7 in
    let t12 : ℕ = mul (sums 9) (sums 11) in
    let t14 : ℕ = add (mul (sums 14) (sums 17)) t12 in
    let t16 : ℕ = add (mul (sums 8) (sums 10)) t12 in
    add (add t4 t14) (sums 20) ∷ add (add t6 t16) (sums 19) ∷ add (add t9 t14) (sums 21) ∷
    add (add t11 t16) (sums 18) ∷ []

-- t29, t33, t37 and t40: the bits of its inverse, and t41 to t45: sums of them
unfoldable pub inner_inverse : (ℕ → ℕ) → List ℕ
inner_inverse values =
    let t25 : ℕ = add (values 0) (values 1) in
    let t26 : ℕ = mul (values 0) (values 2) in
    let t27 : ℕ = add (values 3) t26 in
    let t29 : ℕ = add (mul t25 t27) (values 1) in
    let t30 : ℕ = add (values 2) (values 3) in
    let t31 : ℕ = add (values 1) t26 in
    let t33 : ℕ = add (mul t31 t30) (values 3) in
    let t34 : ℕ = add (values 2) t33 in
    let t35 : ℕ = add t27 t33 in
    let t36 : ℕ = mul (values 3) t35 in
    let t37 : ℕ = add t36 t34 in
    let t38 : ℕ = add t27 t36 in
    let t40 : ℕ = add t25 (mul t29 t38) in
    let t41 : ℕ = add t40 t37 in
    let t42 : ℕ = add t29 t33 in
    let t43 : ℕ = add t29 t40 in
    let t44 : ℕ = add t33 t37 in
    let t45 : ℕ = add t42 t41 in
    t29 ∷ t33 ∷ t37 ∷ t40 ∷ t41 ∷ t42 ∷ t43 ∷ t44 ∷ t45 ∷ []

-- z0 to z17
unfoldable pub products_of : (ℕ → ℕ) → (ℕ → ℕ) → List ℕ
products_of sums factors =
    mul (factors 7) (sums 15) ∷ mul (factors 2) (sums 6) ∷ mul (factors 1) (sums 0) ∷
    mul (factors 6) (sums 16) ∷ mul (factors 3) (sums 1) ∷ mul (factors 0) (sums 7) ∷
    mul (factors 5) (sums 11) ∷ mul (factors 8) (sums 17) ∷ mul (factors 4) (sums 10) ∷
    mul (factors 7) (sums 12) ∷ mul (factors 2) (sums 3) ∷ mul (factors 1) (sums 4) ∷
    mul (factors 6) (sums 13) ∷ mul (factors 3) (sums 5) ∷ mul (factors 0) (sums 2) ∷
    mul (factors 5) (sums 9) ∷ mul (factors 8) (sums 14) ∷ mul (factors 4) (sums 8) ∷ []

-- the bits of the answer
unfoldable pub output_sums : (ℕ → ℕ) → List ℕ
output_sums products =
    let t46 : ℕ = add (products 15) (products 16) in
    let t47 : ℕ = add (products 10) (products 11) in
    let t48 : ℕ = add (products 5) (products 13) in
    let t49 : ℕ = add (products 9) (products 10) in
    let t50 : ℕ = add (products 2) (products 12) in
    let t51 : ℕ = add (products 2) (products 5) in
    let t52 : ℕ = add (products 7) (products 8) in
    let t53 : ℕ = add (products 0) (products 3) in
    let t54 : ℕ = add (products 6) (products 7) in
    let t55 : ℕ = add (products 16) (products 17) in
    let t56 : ℕ = add (products 12) t48 in
    let t57 : ℕ = add t50 t53 in
    let t58 : ℕ = add (products 4) t46 in
    let t59 : ℕ = add (products 3) t54 in
    let t60 : ℕ = add t46 t57 in
    let t61 : ℕ = add (products 14) t57 in
    let t62 : ℕ = add t52 t58 in
    let t63 : ℕ = add t49 t58 in
    let t64 : ℕ = add (products 4) t59 in
    let t65 : ℕ = add t61 t62 in
    let t66 : ℕ = add (products 1) t63 in
    let t67 : ℕ = add t64 t65 in
    let s3 : ℕ = add t53 t66 in
    add (add t48 t60) 1 ∷ add (add t56 t62) 1 ∷ add t47 t65 ∷ add t51 t66 ∷ s3
    ∷ add (add t55 t67) 1 ∷
    add (add t64 s3) 1 ∷ add t59 t63 ∷ []

-- the whole circuit
abbrev pub circuit : (ℕ → ℕ) → List ℕ
circuit bit =
    let sums : ℕ → ℕ = slice_index (linear_sums bit) in
    let factors : ℕ → ℕ = slice_index (inner_inverse (slice_index (inner_values sums))) in
    output_sums (slice_index (products_of sums factors))
